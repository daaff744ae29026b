pub mod Enums
pub mod Orders
pub mod Refusals
pub mod Steps
pub mod Tests
