pub mod Hearing
pub mod Rounds
pub mod Served
pub mod Sessions
