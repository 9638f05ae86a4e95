pub mod HornerSteps
pub mod PowerSteps
