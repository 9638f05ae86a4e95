mod Due
mod AtPlaces
mod Claimed
mod Answered
