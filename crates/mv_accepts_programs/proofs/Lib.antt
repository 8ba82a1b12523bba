pub mod Lists
pub mod Units
mod Fitting
mod Functions
mod Given
mod Whole
pub mod SwitchExpressions
pub mod SwitchLists
pub mod SwitchStatements
pub mod OfIdentifiers
pub mod OfFacts
