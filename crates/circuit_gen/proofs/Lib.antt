pub mod Numbers
pub mod Lexing
pub mod Rows
pub mod Drawing
pub mod WireBits
pub mod Texts
pub mod ExampleGenerated
