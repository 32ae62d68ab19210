-- What each part of the reader of fields answers.
pub mod Positions
pub mod Numbers
pub mod Classes
pub mod Settings
pub mod Fields
