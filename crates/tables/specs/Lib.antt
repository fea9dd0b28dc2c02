pub mod Records
pub mod Layout
pub mod Widths
pub mod Answers
pub mod Refusals
pub mod Tables
pub mod Reading
