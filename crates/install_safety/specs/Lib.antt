pub mod Safe
pub mod TrueRecords
pub mod Lists
