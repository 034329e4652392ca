mod Apart
mod Back
mod Calendar
pub mod Changing
pub mod Digits
mod Facts
mod Formed
mod Groups
mod Lengths
mod Names
mod Putting
mod Times
