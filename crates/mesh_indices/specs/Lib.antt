pub mod Pairs
pub mod Missing
