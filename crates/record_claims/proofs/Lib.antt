pub mod Closings
pub mod Shown
pub mod Results
pub mod Books
pub mod Reports
