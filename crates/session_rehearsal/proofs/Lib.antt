pub mod DirectRounds
pub mod Held
pub mod HeldRounds
pub mod Spelled
pub mod Rehearsed
