-- The laws of the reader.
pub mod Items
pub mod Places
