pub mod Replies
pub mod Counts
pub mod Tries
pub mod Answers
