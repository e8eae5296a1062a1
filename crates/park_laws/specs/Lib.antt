pub mod Facts
pub mod Statements
