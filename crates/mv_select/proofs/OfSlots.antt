pub mod Slots
pub mod Narrow
pub mod Points
pub mod Bindings
pub mod Forms
