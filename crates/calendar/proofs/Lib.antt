pub mod AnyYear
pub mod Dates
pub mod Months
pub mod Samples
