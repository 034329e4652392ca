pub mod Fronts
pub mod Variables
