pub mod StatusRuns
