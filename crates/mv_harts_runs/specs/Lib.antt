pub mod Harts
pub mod Alone
