pub mod Choosing
pub mod Days
pub mod Returning
