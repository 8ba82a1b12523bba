pub mod OfTrees
pub mod OfStatements
pub mod OfControl
