pub mod NodeRuns
