pub mod Fronts
pub mod Reads
pub mod Started
pub mod Tally
pub mod Stretches
