-- The laws of an item written plain.
pub mod Trimming
pub mod Writing
pub mod Meaning
