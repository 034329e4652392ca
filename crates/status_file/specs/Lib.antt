pub mod Clock
pub mod Status
pub mod Truth
