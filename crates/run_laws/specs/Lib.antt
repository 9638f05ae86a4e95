pub mod AcceptedLogs
pub mod CommandTable
pub mod MachineRuns
pub mod MigrationsInTurn
pub mod RunsInTurn
