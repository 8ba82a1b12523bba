pub mod Bounds
pub mod Firsts
pub mod Forms
pub mod Orders
pub mod Told
mod Turns
mod Walks
