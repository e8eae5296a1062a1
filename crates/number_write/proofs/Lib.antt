-- The laws of this crate; `Laws` and `Places` are for its callers too.
pub mod Laws
pub mod Places
pub mod Writing
