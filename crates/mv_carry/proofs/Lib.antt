pub mod Knowing
pub mod Equations
pub mod TreesKept
pub mod CarriedKept
pub mod Structure
pub mod Measures
pub mod BodyCarried
pub mod Writing
