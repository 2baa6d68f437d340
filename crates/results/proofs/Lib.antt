pub mod SlotResults
pub mod Bounds
pub mod Consumers
pub mod SlotExamples
pub mod TooFewDays
