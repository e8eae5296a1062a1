-- The laws of what the program `unpark` says.
pub mod Members
pub mod Spoken
pub mod Bounds
