pub mod FirstData
pub mod Laws
