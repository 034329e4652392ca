pub mod Puts
pub mod QuotedTexts
pub mod Values
