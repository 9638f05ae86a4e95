pub mod Serving
pub mod Cuts
pub mod Rounds
pub mod Peers
pub mod Sessions
pub mod Circuits
pub mod Ariths
