pub mod Meaning
pub mod Answers
pub mod Back
