mod Over
pub mod Products
pub mod Sectioning
pub mod WeightedSums
mod Streaming
mod Testing
