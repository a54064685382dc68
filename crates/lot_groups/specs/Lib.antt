pub mod Meaning
pub mod Answers
