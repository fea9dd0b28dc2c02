pub mod Rules
pub mod Evaluations
