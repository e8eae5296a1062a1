-- The laws of a stream written plain.
pub mod Alike
pub mod Runs
pub mod Staying
pub mod Telling
