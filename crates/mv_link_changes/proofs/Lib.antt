pub mod Sums
pub mod Jumps
pub mod Changed
pub mod Linked
