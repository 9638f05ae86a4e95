pub mod Texts
pub mod TextFaults
pub mod Steps
pub mod Reads
pub mod Laws
pub mod Unmet
