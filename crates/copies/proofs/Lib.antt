-- Laws of rows appended and copied.
pub mod AmountsCopied
pub mod Appending
pub mod Becoming
pub mod Copying
pub mod LyingParts
pub mod PlainWritten
pub mod PlanLetters
pub mod Shapes
