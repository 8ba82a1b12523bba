pub mod Statements
pub mod Declarations
pub mod Switches
pub mod Naming
pub mod Programs
