pub mod ClaimedRanges
pub mod Ranges
pub mod Claims
pub mod Writes
pub mod Causes
