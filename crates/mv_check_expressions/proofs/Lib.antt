pub mod Equations
mod Passing
mod Steps
