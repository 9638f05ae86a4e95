pub mod EndsAlike
pub mod Takes
pub mod BrokerEvents
pub mod Turns
pub mod Nodes
