pub mod Turns
pub mod Granted
pub mod Left
