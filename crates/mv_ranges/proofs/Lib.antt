pub mod Arithmetic
mod Levels
mod Holding
mod Steps
mod Marks
mod Codes
mod Values
pub mod Same
