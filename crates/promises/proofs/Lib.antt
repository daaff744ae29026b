pub mod Calls
mod Clauses
pub mod Demands
pub mod OneOutcome
pub mod Refusals
pub mod Samples
pub mod Shown
pub mod WrongLists
