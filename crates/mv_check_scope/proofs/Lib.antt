pub mod Blocks
pub mod BoundNames
mod Entries
mod Numbers
mod SignatureLists
mod Steps
pub mod Types
