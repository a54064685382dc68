pub mod Report
pub mod Kinds
pub mod Entries
