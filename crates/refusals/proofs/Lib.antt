pub mod Refused
pub mod Exits
