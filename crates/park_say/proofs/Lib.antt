-- The laws of what the program `park` says.
pub mod Spoken
