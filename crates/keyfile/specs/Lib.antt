pub mod Canonical
pub mod Causes
pub mod Escapes
pub mod Groups
pub mod Items
pub mod Lines
pub mod Reading
pub mod Steps
