pub mod Classes
pub mod Indexes
pub mod PointKinds
pub mod TooLarge
