pub mod Seats
pub mod Executions
