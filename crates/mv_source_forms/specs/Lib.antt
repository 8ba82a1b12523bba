pub mod Jumps
pub mod Labels
pub mod Lists
pub mod Names
pub mod Scopes
pub mod Typing
pub mod Uses
pub mod WellFormed
