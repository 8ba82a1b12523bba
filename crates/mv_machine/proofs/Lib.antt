pub mod Turns
pub mod Moved
pub mod Calls
pub mod Departing
pub mod Walks
pub mod Logged
pub mod Resumed
pub mod Starts
pub mod Storing
pub mod Telling
pub mod Orders
pub mod Leaving
pub mod Opening
mod Upgraded
