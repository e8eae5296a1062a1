-- The laws of lines; they are for whoever writes lines too.
pub mod Texts
pub mod Pieces
