pub mod Nodes
pub mod Rules
pub mod Declarations
pub mod Statements
pub mod Units
pub mod Agreement
