pub mod Reading
pub mod Endings
pub mod Settling
pub mod Told
