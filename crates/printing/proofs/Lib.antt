-- Laws about a sheet's answer.
pub mod Copying
pub mod LineEnds
pub mod MonthLines
pub mod Words
