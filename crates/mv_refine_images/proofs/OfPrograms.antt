pub mod Frames
pub mod Called
pub mod Filled
pub mod Entries
pub mod Pointed
pub mod AllFunctions
pub mod MainFunction
pub mod OpenHosts
