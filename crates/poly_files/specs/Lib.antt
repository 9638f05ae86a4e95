pub mod PolyFiles
