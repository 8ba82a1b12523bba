pub mod Calls
pub mod Bodies
pub mod Globals
pub mod Main
pub mod Keeping
pub mod KeepingExpressions
pub mod KeepingStatements
pub mod KeepingCalls
