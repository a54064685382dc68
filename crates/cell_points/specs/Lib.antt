pub mod OneWord
pub mod TwoWords
