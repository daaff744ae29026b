pub mod FastPath
pub mod Promises
pub mod Records
pub mod Values
