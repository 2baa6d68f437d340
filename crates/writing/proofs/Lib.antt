pub mod Storing
pub mod WritingRows
pub mod TooLarge
