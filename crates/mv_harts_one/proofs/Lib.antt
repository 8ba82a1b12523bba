pub mod Words
pub mod Sitting
pub mod Executing
pub mod Advancing
pub mod Skipping
