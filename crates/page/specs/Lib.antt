pub mod Plain
pub mod Pages
pub mod Fits
pub mod Pieces
pub mod Samples
