mod Alike
mod Calls
pub mod Constants
mod Differences
pub mod Expressions
pub mod Lawful
mod Leaves
mod Logged
mod Numbers
mod Outcomes
pub mod Pointers
mod Programs
mod Statements
mod Switches
mod WorkedProgram
