pub mod Acts
pub mod One
pub mod Penned
