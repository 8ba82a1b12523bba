pub mod Laws
pub mod Selected
pub mod Calls
pub mod Functions
pub mod Slots
pub mod Bodies
pub mod Inline
