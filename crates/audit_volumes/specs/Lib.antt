pub mod Limits
pub mod Vectors
pub mod Sizes
