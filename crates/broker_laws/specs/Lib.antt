pub mod NodeDeeds
pub mod BrokerDeeds
pub mod Histories
pub mod Worlds
pub mod Laws
pub mod Runs
pub mod Joins
pub mod Sessions
