pub mod AnyYear
pub mod Dates
pub mod Samples
