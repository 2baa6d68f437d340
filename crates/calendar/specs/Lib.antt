pub mod Dates
pub mod FromMarch
pub mod Eligible
