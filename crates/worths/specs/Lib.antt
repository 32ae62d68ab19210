-- What evaluation answers, and what it asks of the node table and the table.
pub mod Answers
pub mod Checked
pub mod Coded
pub mod Leaf
pub mod Ranges
pub mod Waits
