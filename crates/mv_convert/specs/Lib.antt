pub mod Causes
pub mod Conversions
pub mod Differences
