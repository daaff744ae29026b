pub mod Crossing
pub mod Steps
