pub mod Bools
pub mod Distinct
pub mod Escaping
pub mod Keeping
pub mod LineForms
pub mod Maps
pub mod Merging
pub mod Orders
pub mod Whole
pub mod Remaining
pub mod Pieces
pub mod Escaped
pub mod Law
pub mod Texts
mod Names
