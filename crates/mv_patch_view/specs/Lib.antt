pub mod Laws
pub mod PatchView
