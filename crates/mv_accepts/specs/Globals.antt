pub mod Globals
pub mod FirstValues
