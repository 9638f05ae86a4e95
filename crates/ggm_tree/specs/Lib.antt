pub mod Rows
pub mod Sums
pub mod Found
pub mod Pending
pub mod Laws
