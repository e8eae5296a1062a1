-- The laws of what is said by a verdict.
pub mod Spoken
