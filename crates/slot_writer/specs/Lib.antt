pub mod Causes
pub mod Checks
pub mod Noting
pub mod Slots
