pub mod Notes
pub mod Doors
pub mod Doorways
pub mod Works
