-- Columns: what a plan pays in each month.
pub mod Column
pub mod Remaining
