pub mod Building
pub mod Codes
pub mod Lists
pub mod OnePass
pub mod RoundTrips
pub mod Shown
