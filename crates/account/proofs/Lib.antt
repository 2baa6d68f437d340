pub mod Sums
pub mod Rounding
pub mod Divisors
pub mod Demand3
