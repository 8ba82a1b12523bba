pub mod Leaves
pub mod Follows
pub mod Ran
mod Cut
pub mod Executed
