pub mod Sessions
pub mod Laws
pub mod Causes
pub mod Journals
