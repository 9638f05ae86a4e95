pub mod Outcomes
pub mod Stages
pub mod Notes
pub mod Sessions
pub mod Laws
pub mod Serving
pub mod NoteLines
pub mod ServiceLogs
