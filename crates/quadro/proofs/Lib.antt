pub mod Buffers
pub mod Turns
pub mod Inputs
