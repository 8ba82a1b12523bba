pub mod Laws
pub mod Numberings
