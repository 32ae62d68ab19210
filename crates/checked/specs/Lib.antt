-- What amounts and tests answer, and what they ask of the node table and the table.
pub mod Answers
pub mod Checked
pub mod Coded
pub mod Evaluated
pub mod FourMonths
pub mod Ranges
