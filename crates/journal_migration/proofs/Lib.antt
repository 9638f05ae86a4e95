pub mod BehindIt
pub mod Sound
pub mod Onward
