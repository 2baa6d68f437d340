pub mod Demand2
pub mod WritingCalls
pub mod Seventeen
