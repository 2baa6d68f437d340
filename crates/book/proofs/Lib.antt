pub mod Readings
pub mod Closings
pub mod Endings
pub mod Results
