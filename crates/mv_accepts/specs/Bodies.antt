pub mod Formed
pub mod Declared
pub mod Definitions
