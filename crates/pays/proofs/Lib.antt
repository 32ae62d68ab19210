-- Laws of a plan's payments.
pub mod Asked
pub mod FinePlans
pub mod PayArms
pub mod Pennies
pub mod PlacedPays
pub mod PlanNodes
pub mod PlanParts
pub mod WaitsUntil
