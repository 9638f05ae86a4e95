pub mod Filling
pub mod States
pub mod Starts
pub mod Compactions
pub mod Laying
pub mod Laws
