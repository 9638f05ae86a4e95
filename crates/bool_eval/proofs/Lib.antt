pub mod GateOrder
pub mod BitSteps
