pub mod Claims
pub mod Script
