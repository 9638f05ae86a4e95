pub mod Reporting
pub mod StatusOutcomes
