pub mod SeenPairs
pub mod Keys
pub mod Uniqueness
pub mod Sessions
pub mod Extraction
pub mod Completeness
