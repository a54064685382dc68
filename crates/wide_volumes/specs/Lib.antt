pub mod Digits
pub mod Range
pub mod Sizes
