pub mod Columns
pub mod Sums
pub mod Terms
pub mod Typos
