pub mod Steps
pub mod OneTree
pub mod Joins
pub mod Whole
