pub mod Flagging
pub mod Bounds
pub mod Forms
pub mod Statements
pub mod Numbers
pub mod Owning
