pub mod Truths
pub mod Values
pub mod Texts
pub mod Steps
