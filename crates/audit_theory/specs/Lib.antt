pub mod Walk
pub mod Cuts
pub mod Exact
