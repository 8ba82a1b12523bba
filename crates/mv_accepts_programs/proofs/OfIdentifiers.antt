pub mod Phrases
pub mod Declarations
pub mod Texts
