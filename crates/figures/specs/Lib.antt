pub mod SlotTotals
pub mod Figures
