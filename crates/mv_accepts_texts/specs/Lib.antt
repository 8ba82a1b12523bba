pub mod Expressions
pub mod Meanings
pub mod Texts
pub mod Switches
pub mod Told
