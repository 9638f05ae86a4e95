pub mod NoteLines
pub mod BrokerRuns
