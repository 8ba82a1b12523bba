pub mod Nesting
