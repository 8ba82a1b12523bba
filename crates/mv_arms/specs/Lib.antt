pub mod Arms
pub mod Armed
pub mod Walking
