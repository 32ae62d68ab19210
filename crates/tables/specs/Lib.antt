-- Settings and tables as calls take them.
pub mod Fill
pub mod Given
pub mod Lookup
pub mod Skips
pub mod Words
