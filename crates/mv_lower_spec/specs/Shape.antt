pub mod Allowances
pub mod Calls
pub mod Reads
pub mod Law
pub mod Lowering
