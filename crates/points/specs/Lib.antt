pub mod Points
pub mod Told
pub mod TooLarge
