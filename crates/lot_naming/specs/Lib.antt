pub mod Meaning
pub mod Place
pub mod Answers
