pub mod PolyServices
