pub mod Tidying
pub mod Choosing
pub mod Attaching
pub mod Tidied
pub mod Walking
pub mod ChoosingWalk
