pub mod Plans
pub mod Evaluations
