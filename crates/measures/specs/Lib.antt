-- What a walk of a plan may rely on, and how its answers stand for document 01's.
pub mod Magnitudes
pub mod PlanMeasures
pub mod Ready
pub mod Rows
pub mod Closed
pub mod Spans
pub mod Sure
pub mod Timing
