pub mod Limits
pub mod Rows
pub mod Sums
