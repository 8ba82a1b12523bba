pub mod Rooms
pub mod ReadGlobals
pub mod Places
pub mod Facts
pub mod Own
pub mod Varied
