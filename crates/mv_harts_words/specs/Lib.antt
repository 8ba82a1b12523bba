pub mod Asked
pub mod Schedules
