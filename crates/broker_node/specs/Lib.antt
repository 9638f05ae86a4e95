pub mod NodeStates
pub mod BrokerSteps
pub mod Ties
pub mod Takes
pub mod Steps
pub mod Nodes
