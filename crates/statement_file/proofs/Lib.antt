pub mod Lines
pub mod OneReading
pub mod Reading
