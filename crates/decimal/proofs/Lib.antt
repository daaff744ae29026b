pub mod Bytes
pub mod Finite
pub mod Numbers
pub mod Places
