mod Apart
mod Cases
pub mod Chains
mod Differ
mod DeviceKeys
mod Names
pub mod Rootless
mod SlotForms
mod SlotGroups
pub mod Sound
mod Soundness
mod WellFormed
