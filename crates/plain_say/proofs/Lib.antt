-- The laws of what the program `plain` says.
pub mod Spoken
