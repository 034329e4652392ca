pub mod Archives
pub mod Booted
pub mod Causes
pub mod Jobs
pub mod Kernel
pub mod Mounts
pub mod Targets
