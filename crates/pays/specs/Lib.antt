-- When a plan's payments can be worked out without checks.
pub mod FinePlan
pub mod Parties
pub mod Until
