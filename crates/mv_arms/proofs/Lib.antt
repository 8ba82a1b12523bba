mod BodyArmed
mod Calm
pub mod Counts
mod Means
pub mod Measures
mod Steering
pub mod Structure
pub mod Targets
pub mod Thinning
mod Via
mod Walked
