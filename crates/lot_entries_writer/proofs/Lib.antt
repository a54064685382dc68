pub mod Chunks
pub mod Among
