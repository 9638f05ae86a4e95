pub mod Messages
pub mod Leases
pub mod Nodes
pub mod Worlds
pub mod Sound
pub mod Safe
pub mod Serving
