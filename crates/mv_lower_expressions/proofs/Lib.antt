pub mod Emitting
pub mod Combining
pub mod Arguments
pub mod Elements
pub mod Sizes
pub mod Forms
