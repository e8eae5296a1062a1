-- The laws of a row painted dot by dot; `Lines` is for whoever paints too.
pub mod Walking
pub mod Lines
