-- The sheet's answers.
pub mod Answers
pub mod Held
