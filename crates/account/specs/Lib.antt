pub mod Account
pub mod Demand3
