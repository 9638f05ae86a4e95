pub mod ArithCauses
pub mod ClaimCauses
