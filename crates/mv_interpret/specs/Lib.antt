pub mod Answers
pub mod Forms
pub mod Programs
pub mod Runs
