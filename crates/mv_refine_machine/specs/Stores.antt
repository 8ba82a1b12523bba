pub mod Stores
pub mod Between
pub mod Laws
