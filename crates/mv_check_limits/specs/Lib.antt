pub mod Limits
pub mod Ordered
