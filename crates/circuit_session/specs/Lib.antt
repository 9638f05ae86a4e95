pub mod Sessions
pub mod Statements
pub mod Witnesses
