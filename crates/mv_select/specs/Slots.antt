pub mod Narrowed
pub mod Laws
pub mod Points
