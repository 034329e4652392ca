pub mod Distinct
mod Entries
pub mod FirstOf
mod Items
mod Lists
pub mod Numbered
mod Slashes
pub mod SlotNames
pub mod Values
