pub mod PassedRounds
pub mod SessionPassed
