pub mod Samples
pub mod Typos
pub mod UnderLists
