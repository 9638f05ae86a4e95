pub mod Works
pub mod Back
pub mod Doorways
pub mod Runs
pub mod Sizes
