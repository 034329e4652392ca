pub mod FilesPut
pub mod Joining
pub mod Marking
pub mod Preparing
pub mod SlotsNamed
