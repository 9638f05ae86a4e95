pub mod Codes
pub mod Hellos
pub mod FrameCodes
pub mod OneTranscript
pub mod SentBytes
