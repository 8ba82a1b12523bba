pub mod Acts
pub mod Bindings
pub mod OrderNumbers
pub mod Traps
