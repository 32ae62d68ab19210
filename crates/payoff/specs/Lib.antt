-- Compiling and evaluating in the node table, cutting a text, and what the calls on payoffs answer.
pub mod Answers
pub mod Compiling
pub mod Cut
pub mod Evaluating
