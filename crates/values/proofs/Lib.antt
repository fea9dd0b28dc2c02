pub mod Records
pub mod Encodings
pub mod Verdicts
