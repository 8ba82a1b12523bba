pub mod ProgramBodies
pub mod Laws
