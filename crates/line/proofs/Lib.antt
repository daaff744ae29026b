pub mod Boxes
pub mod Lines
pub mod RoundTrips
pub mod UnderLists
