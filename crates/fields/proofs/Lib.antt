pub mod Headers
pub mod Answers
