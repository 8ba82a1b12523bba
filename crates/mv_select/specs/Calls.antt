pub mod CallCode
pub mod Convention
pub mod Environment
pub mod Laws
pub mod Lines
