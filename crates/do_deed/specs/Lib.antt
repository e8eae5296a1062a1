pub mod Acted
pub mod Deeds
