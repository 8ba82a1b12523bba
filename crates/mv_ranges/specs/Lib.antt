pub mod Ranges
pub mod Facts
pub mod Plain
pub mod Following
pub mod Marked
