pub mod OfExpressions
pub mod OfStatements
pub mod OfBodies
pub mod OfNumbers
pub mod OfNames
pub mod OfGlobals
pub mod OfLimits
