pub mod Expressions
pub mod Statements
pub mod Bodies
pub mod Numbers
pub mod Names
pub mod Globals
pub mod Limits
