pub mod Linked
pub mod Joining
pub mod Tables
pub mod Outcome
pub mod Laws
