pub mod Led
pub mod PolyUsage
