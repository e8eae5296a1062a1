pub mod Left
pub mod Bound
