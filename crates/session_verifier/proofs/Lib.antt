pub mod StageLemmas
pub mod Cuts
pub mod ServeLemmas
pub mod CourseLemmas
pub mod HonestLemmas
pub mod NoteOrder
pub mod LogStores
