pub mod Forms
pub mod Promises
pub mod Version
