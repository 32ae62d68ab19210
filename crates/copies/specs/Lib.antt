-- Rows appended to the first rows of a table, and rows moved down in it.
pub mod Appended
pub mod Copied
pub mod Lies
pub mod Plain
