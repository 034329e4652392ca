pub mod Effects
pub mod Halves
pub mod Undo
pub mod Whole
pub mod Logged
