pub mod Translating
pub mod Splitting
pub mod NoAssertions
pub mod ArithTranslating
