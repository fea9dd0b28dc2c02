pub mod Symbols
pub mod Grammar
pub mod Viable
pub mod Faults
pub mod Parsing
