pub mod FileMaps
pub mod Halves
pub mod Scripts
pub mod Laying
pub mod Crashes
pub mod Asked
