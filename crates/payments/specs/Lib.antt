-- What the calls on payments answer.
pub mod Answers
pub mod Waits
