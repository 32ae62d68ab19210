-- Laws of amounts and tests with refusals.
pub mod Refusals
pub mod Bounds
pub mod CheckedArms
pub mod CheckedNodes
pub mod Codes
pub mod Combined
pub mod FourLaws
pub mod RowAnswers
