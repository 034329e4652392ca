pub mod Checks
pub mod Pieces
pub mod Copied
pub mod Order
pub mod Stopping
pub mod Putting
pub mod Asking
