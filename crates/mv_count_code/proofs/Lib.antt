pub mod OwnWords
pub mod Sizes
pub mod Texts
pub mod Sites
pub mod Fronts
