pub mod Tallies
pub mod Searches
pub mod Firsts
pub mod Caches
pub mod Slots
pub mod Lanes
pub mod Posting
pub mod Boards
