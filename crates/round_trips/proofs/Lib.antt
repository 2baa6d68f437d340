pub mod Cutting
pub mod Figures
pub mod RoundTrips
pub mod WritingCalls
pub mod Seventeen
