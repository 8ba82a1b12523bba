pub mod Values
pub mod Calls
pub mod Places
pub mod Expressions
