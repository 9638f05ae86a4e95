pub mod Desks
pub mod Grants
