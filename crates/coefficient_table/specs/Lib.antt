pub mod AllOnce
pub mod Sparse
pub mod SparseRuns
pub mod SparseSum
pub mod Table
