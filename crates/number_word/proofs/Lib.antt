-- The laws of words read as numbers.
pub mod Digits
