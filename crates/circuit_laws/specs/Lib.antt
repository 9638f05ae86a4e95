pub mod Circuits
pub mod GateBits
