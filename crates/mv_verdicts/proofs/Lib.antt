pub mod Lexed
pub mod Judged
pub mod Whole
