-- Laws of settings and tables.
pub mod Bounds
pub mod Fills
pub mod Lists
pub mod Lookups
pub mod PlanFills
pub mod PlanSkips
pub mod Skips
pub mod Spans
pub mod Words
