pub mod Meaning
pub mod Notes
