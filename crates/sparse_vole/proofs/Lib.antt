mod Sums
mod Keys
mod Vectors
mod Examples
