pub mod ArithFiles
pub mod NamedClaims
pub mod NamedElements
pub mod Services
