pub mod Decimal
pub mod Slip
pub mod Deeper
