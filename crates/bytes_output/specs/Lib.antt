pub mod Behind
pub mod Progress
