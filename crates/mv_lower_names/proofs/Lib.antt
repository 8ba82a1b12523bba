pub mod Naming
pub mod Premises
pub mod Expressions
pub mod Statements
pub mod FromTypes
pub mod FromFolds
pub mod Lowered
pub mod Pointers
