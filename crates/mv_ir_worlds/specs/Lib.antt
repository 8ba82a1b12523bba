pub mod Fit
pub mod Functions
pub mod Laws
