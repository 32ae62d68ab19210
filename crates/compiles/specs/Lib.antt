-- Compiling in the node table.
pub mod Months
pub mod Ready
