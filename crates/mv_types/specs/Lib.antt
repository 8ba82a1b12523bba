pub mod Checked
pub mod Completed
pub mod Contents
pub mod Foreknown
pub mod Functions
pub mod Objects
pub mod Repeated
pub mod Units
