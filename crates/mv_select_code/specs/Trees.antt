pub mod Laws
pub mod Rooms
pub mod Straight
pub mod TreeCode
pub mod View
