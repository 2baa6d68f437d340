pub mod Keeping
pub mod Sizes
pub mod Summing
pub mod Reporting
pub mod Words
