pub mod Files
pub mod Common
