pub mod Stages
pub mod Readings
pub mod Theorems
