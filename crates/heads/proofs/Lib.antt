pub mod Ranges
pub mod Opening
