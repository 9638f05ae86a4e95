mod Bitwise
mod LaneLemmas
mod Block
