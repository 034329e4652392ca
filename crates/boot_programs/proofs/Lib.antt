pub mod Entries
pub mod Operands
pub mod Spellings
pub mod Readings
pub mod Changes
