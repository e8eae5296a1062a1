-- The laws of steps.
pub mod Holding
pub mod Sizes
pub mod Pages
pub mod Refusals
pub mod Whole
pub mod Stepping
pub mod Told
