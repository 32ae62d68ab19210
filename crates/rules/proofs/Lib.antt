-- Laws of checking.
pub mod Accepting
pub mod Checks
pub mod Filling
pub mod Measuring
pub mod Texts
