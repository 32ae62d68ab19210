-- What the walk of a text answers: what was read, and that it keeps the rules.
pub mod Packed
pub mod Reads
pub mod Seen
