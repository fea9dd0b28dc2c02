pub mod Rules
pub mod Joins
