-- The laws of this crate.
pub mod Words
pub mod Digits
pub mod Going
