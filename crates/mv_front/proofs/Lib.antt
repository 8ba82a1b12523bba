pub mod Causes
pub mod Answers
pub mod OneVerdict
pub mod Few
