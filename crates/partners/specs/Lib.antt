pub mod Answers
pub mod Calls
pub mod Refusals
pub mod Layers
