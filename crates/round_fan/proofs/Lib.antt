mod Adding
mod Units
mod Pairs
mod Replies
