pub mod Flatten
pub mod Congruence
pub mod FieldLaws
pub mod UnitPowers
pub mod Prime
