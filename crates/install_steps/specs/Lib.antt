pub mod Steps
pub mod Noting
pub mod Putting
pub mod Causes
pub mod Doing
pub mod Steady
pub mod Progress
