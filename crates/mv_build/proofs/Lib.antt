pub mod Limits
pub mod Whole
pub mod Verdicts
pub mod Answers
