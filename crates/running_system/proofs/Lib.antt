pub mod SlotDevices
pub mod SlotsKept
pub mod StateLookups
