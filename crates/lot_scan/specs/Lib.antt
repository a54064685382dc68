pub mod Meaning
pub mod Seen
pub mod Scans
