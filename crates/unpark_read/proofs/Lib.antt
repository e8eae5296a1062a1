-- The laws of this crate.
mod Holding
mod Reading
