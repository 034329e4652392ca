pub mod Conf
pub mod Ends
pub mod Lines
pub mod Plans
