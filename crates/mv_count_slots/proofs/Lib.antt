pub mod Weights
pub mod Calls
pub mod Callees
pub mod Places
pub mod Through
pub mod Pointers
