-- Laws of amounts and tests worked out in the node table.
pub mod AmountArms
pub mod FourMonths
pub mod FourWaits
pub mod Nodes
pub mod Placed
pub mod RowReads
pub mod Sizes
pub mod TablePlaces
pub mod TestArms
pub mod WaitPlaces
pub mod Waited
pub mod Waiting
