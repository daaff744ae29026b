pub mod Bytes
pub mod LowHalves
pub mod Numbers
pub mod OneByte
pub mod Places
