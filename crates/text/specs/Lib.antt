-- What the reader answers, and what each of its parts answers on the way.
pub mod Refusals
pub mod ReadInto
pub mod Room
pub mod Letters
pub mod Trees
pub mod Rows
pub mod Packed
pub mod Whole
pub mod Opens
