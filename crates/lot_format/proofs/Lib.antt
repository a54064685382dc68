pub mod Front
pub mod Through
pub mod Between
pub mod Accepted
pub mod Reached
