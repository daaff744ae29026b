pub mod Days
pub mod Inputs
pub mod Samples
