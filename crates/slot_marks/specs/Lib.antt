pub mod Answers
pub mod Causes
pub mod Choice
pub mod Marking
pub mod Noting
