-- The laws of marks.
pub mod Marking
