pub mod Sequences
pub mod StatementForms
pub mod Switching
pub mod Declaring
pub mod Bodies
pub mod Marking
pub mod Small
