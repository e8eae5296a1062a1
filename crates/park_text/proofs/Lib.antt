-- The laws of this crate; those of texts are for whoever reads them too.
pub mod Texts
pub mod Writing
pub mod Counting
