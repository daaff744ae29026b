pub mod Ignored
pub mod Joins
pub mod Makes
pub mod Parts
pub mod Trips
pub mod Writes
