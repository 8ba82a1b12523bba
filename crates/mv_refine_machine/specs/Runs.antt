pub mod Behaves
pub mod Main
pub mod Unchanged
pub mod Laws
