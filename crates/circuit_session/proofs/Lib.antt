pub mod Answering
pub mod Judged
pub mod Ends
pub mod Findings
pub mod Shown
pub mod SaidFits
pub mod Decided
