-- A sheet's lines: what the code finds in them.
pub mod Figures
pub mod Indexes
pub mod Lines
pub mod Numbers
pub mod Parts
pub mod Sheets
