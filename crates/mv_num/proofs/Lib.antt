pub mod ByteLaws
pub mod Signed
pub mod Booleans
pub mod Numbers
pub mod Lists
pub mod KindNumbers
