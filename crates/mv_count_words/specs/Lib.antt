pub mod Lines
pub mod Bound
pub mod Owed
pub mod Laws
