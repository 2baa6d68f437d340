pub mod Baseline
pub mod Consumers
pub mod FourDays
