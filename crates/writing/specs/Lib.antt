pub mod Writing
pub mod TooLarge
