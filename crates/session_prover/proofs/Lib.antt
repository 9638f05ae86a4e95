mod AskedRounds
mod Heard
mod Answering
mod GrantPlace
mod Ending
mod FirstFrames
mod Leading
