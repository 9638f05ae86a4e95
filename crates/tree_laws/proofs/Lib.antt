pub mod Xors
pub mod Ancestors
pub mod Punctured
pub mod FoundTrees
pub mod Grown
pub mod Messages
pub mod Joined
