pub mod Meaning
pub mod EntryRuns
