pub mod Sheets
pub mod Left
pub mod Steps
