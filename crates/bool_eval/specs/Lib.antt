pub mod GateBits
pub mod Answers
