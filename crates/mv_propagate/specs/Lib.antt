pub mod Facts
pub mod Propagating
pub mod Propagated
