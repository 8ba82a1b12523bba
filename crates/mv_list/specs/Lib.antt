pub mod Bindings
pub mod Changes
pub mod Events
pub mod Listing
pub mod Numbers
pub mod Places
