pub mod Refusals
pub mod Layout
pub mod Verdicts
pub mod Drafts
pub mod Reading
