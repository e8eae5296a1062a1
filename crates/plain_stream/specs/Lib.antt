pub mod Runs
pub mod Staying
pub mod Walked
