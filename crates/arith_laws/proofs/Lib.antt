pub mod Ordering
pub mod OneList
pub mod Solved
pub mod Formed
pub mod Stated
