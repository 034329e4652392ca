pub mod Bundle
pub mod Causes
pub mod Checks
pub mod Children
pub mod Closing
pub mod Hooks
pub mod Mounting
