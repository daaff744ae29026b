pub mod Searches
pub mod Remembering
pub mod Memories
