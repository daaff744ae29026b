pub mod Joining
pub mod Making
pub mod Promises
