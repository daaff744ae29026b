pub mod Terms
pub mod Kinds
