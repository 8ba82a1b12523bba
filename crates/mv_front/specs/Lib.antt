pub mod Codes
pub mod Refusals
pub mod Verdicts
pub mod Errors
