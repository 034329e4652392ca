pub mod Scripts
pub mod Numbered
pub mod Stopped
