pub mod Kinds
pub mod Session
