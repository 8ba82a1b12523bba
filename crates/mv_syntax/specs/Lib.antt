pub mod Keywords
pub mod Shapes
