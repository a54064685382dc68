pub mod Meaning
pub mod Elements
pub mod Records
