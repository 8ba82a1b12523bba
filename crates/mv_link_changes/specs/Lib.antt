pub mod Changed
pub mod Linked
