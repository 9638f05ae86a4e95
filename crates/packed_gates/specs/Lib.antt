pub mod PackedSteps
pub mod PackedRows
