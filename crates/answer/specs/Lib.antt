pub mod Answers
pub mod Limits
pub mod Orders
pub mod Refusals
