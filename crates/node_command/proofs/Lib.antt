pub mod NodeOutcomes
