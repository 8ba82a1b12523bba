pub mod Spelled
pub mod Items
pub mod Oracles
pub mod Help
pub mod Conversions
pub mod Commands
