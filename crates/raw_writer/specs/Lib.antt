pub mod Checking
pub mod Putting
pub mod Whole
