pub mod Outcomes
pub mod Stages
pub mod Notes
pub mod Completing
pub mod Stores
pub mod Sessions
