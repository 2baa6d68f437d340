pub mod FigureSteps
pub mod SlotTotals
