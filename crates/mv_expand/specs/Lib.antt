pub mod Straight
pub mod Placed
pub mod Expanding
pub mod Expanded
pub mod Walking
