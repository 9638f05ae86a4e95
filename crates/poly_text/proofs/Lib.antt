pub mod ExampleTexts
pub mod Exits
pub mod Items
pub mod Exact
pub mod Texts
