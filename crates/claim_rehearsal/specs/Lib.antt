pub mod ClaimRehearsals
pub mod Passed
