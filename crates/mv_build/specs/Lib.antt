pub mod Images
pub mod Verdicts
pub mod Answers
pub mod Errors
pub mod Compiled
