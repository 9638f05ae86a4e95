pub mod Frames
pub mod Rows
pub mod Readings
pub mod Holding
pub mod Rooms
pub mod Laws
