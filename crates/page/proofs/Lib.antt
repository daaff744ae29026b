pub mod Plain
pub mod Steps
pub mod Pages
pub mod Fits
pub mod Samples
