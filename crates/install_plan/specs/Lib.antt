pub mod Acts
pub mod Works
