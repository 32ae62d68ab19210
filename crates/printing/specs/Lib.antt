-- The answer of a sheet as text.
pub mod Lines
