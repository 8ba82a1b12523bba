pub mod Controls
pub mod Operator
