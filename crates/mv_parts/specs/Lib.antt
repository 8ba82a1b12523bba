pub mod Numbers
pub mod Codes
pub mod Switches
pub mod Parts
pub mod Counts
pub mod Fronts
pub mod Laws
