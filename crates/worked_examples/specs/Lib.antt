pub mod Examples
pub mod ExampleM
pub mod Sequences
pub mod TellingDays
pub mod ReturningDays
pub mod TellingReadings
pub mod Reports
pub mod WrongPrograms
