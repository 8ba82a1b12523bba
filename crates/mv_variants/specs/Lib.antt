pub mod Domains
pub mod Rows
pub mod Sizes
pub mod Fronts
pub mod Variants
pub mod Bound
