pub mod Checks
pub mod Columns
