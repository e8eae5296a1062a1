-- The laws of this crate; `drawn_parts` says to callers what its definition is to the rules'.
pub mod Drawing
