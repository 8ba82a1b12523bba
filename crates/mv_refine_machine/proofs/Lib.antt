mod Steps
mod Registers
pub mod Memory
pub mod Calming
pub mod Fetches
pub mod Open
pub mod Starts
pub mod OnRuns
pub mod Under
pub mod Shown
mod Packing
mod Answering
mod Placing
mod Jumps
pub mod Bound
pub mod Keeping
pub mod Inputs
pub mod Returning
pub mod Serving
pub mod Whole
pub mod OfStubs
pub mod OfStores
pub mod OfCommits
pub mod OfRuns
