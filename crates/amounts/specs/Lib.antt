-- What amounts and tests read, and when they are worked out without checks.
pub mod Fine
pub mod Flat
pub mod FourMonths
pub mod Placed
pub mod Waits
