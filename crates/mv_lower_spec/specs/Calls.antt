pub mod SourceCalls
pub mod Bindings
pub mod Laws
