mod Ranges
pub mod Pieces
mod Sides
mod Asked
mod Found
mod Replied
mod Fits
pub mod AskedAny
