pub mod Sheet
pub mod Filled
