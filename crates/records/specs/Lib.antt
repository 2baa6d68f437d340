pub mod Records
pub mod Rules
pub mod Report
pub mod Told
pub mod Summing
