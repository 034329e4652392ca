mod Classes
mod FreeRoots
mod Listed
mod Placing
mod Ranges
pub mod StateLemmas
