pub mod PolyRuns
