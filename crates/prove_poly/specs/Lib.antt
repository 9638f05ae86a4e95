pub mod PolyNotes
pub mod PolyProofs
