-- The laws of commands written plain.
pub mod Writing
