pub mod Due
pub mod AtPlaces
pub mod Verified
pub mod Whole
pub mod Leased
pub mod Answered
