pub mod Packing
pub mod RowPacking
