-- What the way back answers.
pub mod Backs
