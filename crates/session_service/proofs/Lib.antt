pub mod Opening
pub mod Ordering
pub mod LogNames
pub mod NotesOutcomes
