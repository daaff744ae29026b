pub mod Exact
pub mod FastPath
pub mod FieldBytes
pub mod KindRules
pub mod OwnRefusals
pub mod Shown
pub mod Walks
