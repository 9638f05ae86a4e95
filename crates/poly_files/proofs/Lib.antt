pub mod PolyCauses
