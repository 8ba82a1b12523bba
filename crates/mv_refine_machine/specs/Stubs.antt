pub mod Stubs
pub mod Ends
pub mod Laws
