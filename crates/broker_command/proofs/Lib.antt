pub mod Opening
pub mod Endings
pub mod BrokerOutcomes
pub mod BrokerDone
