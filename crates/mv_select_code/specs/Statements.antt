pub mod Encoded
pub mod Frames
pub mod Laws
pub mod Leads
pub mod StatementCode
