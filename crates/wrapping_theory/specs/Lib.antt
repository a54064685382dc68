pub mod Congruence
pub mod Wrapping
pub mod Runs
pub mod Words
pub mod Order
pub mod Columns
pub mod Single
pub mod Examples
