pub mod Claiming
pub mod Jobs
pub mod ProveOutcomes
