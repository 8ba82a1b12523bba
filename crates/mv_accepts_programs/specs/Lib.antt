pub mod Checked
pub mod OwnSwitches
pub mod Identifiers
pub mod Facts
