pub mod Attributes
pub mod Enumerations
pub mod Declarators
pub mod Units
pub mod Switches
pub mod Functions
pub mod Whole
