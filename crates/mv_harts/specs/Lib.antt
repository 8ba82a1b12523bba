pub mod Ends
pub mod Devices
pub mod HartsRan
pub mod Texts
pub mod Outcomes
pub mod Runnable
