pub mod Sums
pub mod Large
pub mod Parts
pub mod FourBytes
pub mod Bounds
