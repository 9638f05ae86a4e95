pub mod Within
pub mod Grants
