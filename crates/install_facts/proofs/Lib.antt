pub mod Answering
pub mod Choosing
pub mod Failing
pub mod Fitting
pub mod Joining
pub mod Knowing
pub mod Silent
