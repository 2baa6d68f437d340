pub mod Bounds
pub mod FourDays
