pub mod Led
pub mod Walks
pub mod Held
pub mod Once
pub mod Kept
pub mod Causes
pub mod Journals
