mod BodyPropagated
mod Counts
mod Formed
mod Kept
mod Reading
mod Statements
mod Staying
mod Steps
pub mod Structure
mod Thinning
mod Values
mod Walked
