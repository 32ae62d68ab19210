-- What the C interface returns.
pub mod Returned
pub mod Within
