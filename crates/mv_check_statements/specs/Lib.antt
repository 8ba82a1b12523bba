pub mod Statements
pub mod Surroundings
pub mod SwitchBodies
