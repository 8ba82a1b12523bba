pub mod Growing
pub mod Stopping
pub mod Unchanged
pub mod Calls
pub mod Courses
