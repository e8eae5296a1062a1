-- The laws of what is written before the pages.
pub mod Holding
