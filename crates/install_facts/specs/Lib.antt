pub mod Notes
pub mod Stops
pub mod Answers
pub mod Facts
pub mod Failing
pub mod Gathering
pub mod Causes
