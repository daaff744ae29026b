pub mod KindLaws
pub mod VersionLaws
