mod Numbers
pub mod Joining
pub mod Telling
