pub mod Differences
pub mod Floors
pub mod Machine
pub mod Sums
pub mod TwosComplement
