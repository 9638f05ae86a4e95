pub mod Exchanged
pub mod Trying
pub mod Brokered
