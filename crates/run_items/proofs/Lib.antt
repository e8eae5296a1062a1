-- The laws of this crate.
pub mod Blank
pub mod Turns
