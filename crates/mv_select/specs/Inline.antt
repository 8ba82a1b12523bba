pub mod InlineOf
pub mod Shapes
pub mod Laws
