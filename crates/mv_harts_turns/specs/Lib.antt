pub mod Pairs
pub mod Groups
pub mod Polls
pub mod Runs
