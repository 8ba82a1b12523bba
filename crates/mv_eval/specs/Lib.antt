pub mod Grown
pub mod Evaluations
