mod Places
mod Seats
pub mod Standing
mod Steps
mod Reaching
mod Leading
mod Following
mod Running
mod Readiness
mod Starting
mod Holding
mod Changing
mod Turning
mod Advancing
