pub mod Telling
pub mod Sessions
