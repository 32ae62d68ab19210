-- The node table: how a plan or payoff lies in it, and how it is found there.
pub mod Blocks
pub mod Found
pub mod Letters
pub mod Pass
pub mod Rows
pub mod Stands
pub mod Table
