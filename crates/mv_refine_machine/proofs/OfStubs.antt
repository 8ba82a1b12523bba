pub mod Data
pub mod Walked
pub mod Starting
pub mod Ending
pub mod Checking
