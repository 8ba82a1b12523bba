pub mod Combining
mod Bindings
mod Worlds
pub mod Functions
