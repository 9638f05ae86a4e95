pub mod FileFaults
pub mod Dealing
pub mod Flat
pub mod Words
pub mod Dealt
pub mod Faults
pub mod Reading
