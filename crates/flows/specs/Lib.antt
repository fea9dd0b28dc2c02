pub mod Drafted
pub mod Refusals
pub mod Verdicts
pub mod Flows
