pub mod Answers
pub mod Exchanges
pub mod Holding
pub mod Rehearsals
