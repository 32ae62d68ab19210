-- Laws about columns.
pub mod AcceptedColumns
pub mod BackSums
pub mod ColumnNodes
pub mod CutValues
pub mod Pennies
pub mod Sizes
pub mod Weights
