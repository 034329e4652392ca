pub mod Children
mod Noting
mod Places
pub mod Putting
mod Refilling
pub mod Rest
pub mod Undoing
