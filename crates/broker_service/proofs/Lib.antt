pub mod Links
pub mod Services
pub mod Ledger
pub mod Steps
pub mod Told
pub mod Whole
pub mod Outcomes
