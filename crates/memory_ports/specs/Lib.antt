pub mod Asking
pub mod Doors
pub mod Plans
pub mod Epochs
