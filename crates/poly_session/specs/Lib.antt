pub mod PolyClaims
pub mod PolyWitnesses
