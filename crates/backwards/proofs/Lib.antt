-- Laws of the way back.
pub mod Backwards
pub mod Waiting
pub mod Ways
