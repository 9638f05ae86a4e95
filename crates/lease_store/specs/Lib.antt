pub mod Ceilings
pub mod Desks
pub mod Raising
pub mod Storing
pub mod Stops
pub mod Leases
pub mod States
pub mod Laws
