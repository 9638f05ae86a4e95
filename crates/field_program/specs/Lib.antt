pub mod Counts
pub mod Rules
pub mod Programs
pub mod Steps
pub mod Plans
pub mod Slotting
