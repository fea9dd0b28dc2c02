pub mod Flows
pub mod Evaluated
