pub mod Runs
pub mod Ends
pub mod Causes
pub mod Through
pub mod Honest
pub mod Marked
pub mod Systems
pub mod Words
