pub mod Bytes
pub mod Kinds
pub mod Limits
pub mod Lists
pub mod Regions
pub mod Words
pub mod formers
