pub mod Range
pub mod Sizes
