pub mod Facts
pub mod Carrying
pub mod Carried
