pub mod Lists
pub mod Tabled
pub mod Leading
pub mod Rows
pub mod Images
