pub mod Meaning
pub mod Promise
