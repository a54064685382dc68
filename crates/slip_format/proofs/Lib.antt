pub mod DecimalLaws
pub mod Room
pub mod Examples
