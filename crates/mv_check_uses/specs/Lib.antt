pub mod Uses
pub mod Flags
