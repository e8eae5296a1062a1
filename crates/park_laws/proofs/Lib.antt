pub mod Digits
pub mod Written
pub mod Laws
pub mod Sounds
pub mod Round
pub mod Bounds
pub mod Told
pub mod Theorems
