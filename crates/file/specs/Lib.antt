pub mod Files
pub mod Forms
