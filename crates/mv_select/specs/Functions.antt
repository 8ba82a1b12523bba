pub mod Encoded
pub mod FunctionCode
pub mod Functions
pub mod Loads
pub mod Outlines
pub mod Pins
pub mod Uses
