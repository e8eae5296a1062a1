pub mod Items
pub mod Printing
pub mod Calls
pub mod Reporting
pub mod Ends
pub mod Bound
pub mod Whole
