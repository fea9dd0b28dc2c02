pub mod Cycles
pub mod Rankings
