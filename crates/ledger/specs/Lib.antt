pub mod States
pub mod Operations
pub mod Told
