pub mod Spans
pub mod Machine
pub mod Kept
pub mod Limits
pub mod Consistent
