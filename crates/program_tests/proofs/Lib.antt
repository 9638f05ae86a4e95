pub mod PlainFiles
pub mod Fitting
