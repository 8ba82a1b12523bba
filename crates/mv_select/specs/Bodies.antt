pub mod Lines
pub mod SelectedBodies
