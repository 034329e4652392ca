pub mod Clocks
pub mod SystemNames
