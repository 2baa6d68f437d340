pub mod Calls
pub mod Totals
pub mod Within
pub mod Days
pub mod TooLarge
pub mod Eighteen
