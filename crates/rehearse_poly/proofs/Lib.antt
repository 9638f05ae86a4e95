pub mod HonestSums
pub mod PolyOutcomes
