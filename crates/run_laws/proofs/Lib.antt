pub mod AcceptedLogs
pub mod ClaimsInTurn
pub mod CommandRows
pub mod Eras
pub mod MachineRuns
pub mod MigrationsInTurn
pub mod RunsInTurn
pub mod StoppedRuns
