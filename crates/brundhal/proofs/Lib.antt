pub mod Label
pub mod Answered
