pub mod Names
pub mod Outlined
pub mod Places
