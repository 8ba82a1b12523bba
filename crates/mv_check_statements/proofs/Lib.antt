pub mod Blocks
pub mod Labels
