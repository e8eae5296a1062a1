pub mod Bytes
pub mod Parts
pub mod Keeping
