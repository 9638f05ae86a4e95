pub mod Going
pub mod Rows
pub mod Rounds
pub mod Left
