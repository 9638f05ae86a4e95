pub mod ExampleRows
pub mod Exits
pub mod OneReading
pub mod Reading
