pub mod Allowed
pub mod Calls
pub mod Demands
pub mod OneOutcome
pub mod Refusals
pub mod Samples
pub mod Shown
pub mod WrongLists
