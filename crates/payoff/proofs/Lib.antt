-- Laws of payoffs, in the node table and as text.
pub mod CompileTexts
pub mod Copied
pub mod Cuts
pub mod Evaluations
pub mod FilledBlocks
pub mod FilledRanges
pub mod Opens
pub mod TableFacts
pub mod Texts
