pub mod Limits
pub mod Nodes
pub mod Main
pub mod Sizes
