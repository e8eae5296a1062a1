pub mod Clips
pub mod Texts
