pub mod Amounts
pub mod Buffers
pub mod Calls
pub mod Trailers
pub mod Written
