-- The laws of this crate; `typed_core` says to callers what its definition is to the rules'.
pub mod Typing
