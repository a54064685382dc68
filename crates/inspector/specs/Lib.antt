pub mod Reports
pub mod Own
pub mod Promise
pub mod Stamps
