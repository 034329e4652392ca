pub mod Preparing
pub mod Course
pub mod Untouched
pub mod Done
pub mod Faults
pub mod CrashSafe
