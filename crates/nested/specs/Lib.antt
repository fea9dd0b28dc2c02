pub mod Refusals
pub mod Nesting
