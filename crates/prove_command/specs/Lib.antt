pub mod BitsProofs
pub mod ElementsProofs
pub mod NamedProofs
pub mod Proofs
pub mod ProveRuns
