pub mod Causes
pub mod Info
pub mod Opening
