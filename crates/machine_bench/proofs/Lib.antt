pub mod Scripted
pub mod Settling
pub mod Stopping
