-- Laws of places.
pub mod NodePlaces
pub mod PassFound
pub mod PlacedForm
pub mod PlacedFound
pub mod PlanPlaces
pub mod PlanRanges
pub mod Ranges
pub mod RowPlaces
