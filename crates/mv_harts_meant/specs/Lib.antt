pub mod Runnable
pub mod Laws
