pub mod ServiceRuns
pub mod NotesMean
