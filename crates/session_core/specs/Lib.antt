pub mod Ends
pub mod Jobs
pub mod Judgements
pub mod Rounds
pub mod Cores
pub mod Extending
pub mod Fixing
pub mod Stages
