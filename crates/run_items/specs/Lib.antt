pub mod Turns
pub mod Stops
