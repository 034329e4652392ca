mod Loading
pub mod Mounting
mod PrintedTexts
pub mod Unmounting
mod Variables
mod Words
