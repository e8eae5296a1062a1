-- The laws of this crate.
pub mod Ready
pub mod Answers
pub mod Carried
