pub mod Agreed
pub mod Building
pub mod Codes
pub mod RoundTrips
pub mod Shown
