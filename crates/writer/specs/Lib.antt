-- What the writer writes.
pub mod Answers
pub mod Digits
pub mod Put
pub mod Shapes
pub mod Written
