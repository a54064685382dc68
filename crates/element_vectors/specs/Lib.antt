pub mod Fitting
pub mod Range
pub mod Sizes
pub mod Vectors
pub mod Widened
