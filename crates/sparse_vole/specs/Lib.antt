pub mod Noise
pub mod Laws
