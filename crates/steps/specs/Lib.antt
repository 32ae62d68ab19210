-- The month step in the node table.
pub mod Offsets
pub mod Ready
pub mod Waits
