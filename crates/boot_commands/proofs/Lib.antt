pub mod Along
pub mod BareboxPlans
pub mod CustomPlans
pub mod EfiPlans
pub mod GrubPlans
pub mod Keeping
pub mod Maps
pub mod Marks
pub mod Names
mod NewWords
mod Numbers
mod Splits
pub mod UbootPlans
