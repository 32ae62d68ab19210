-- Laws of the walk of a text.
pub mod Packs
pub mod Fields
pub mod Reading
pub mod Amounts
pub mod Plans
pub mod Nodes
