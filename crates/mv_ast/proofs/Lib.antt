pub mod Common
pub mod Flags
