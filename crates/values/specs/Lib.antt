pub mod Amounts
pub mod Layout
pub mod Cases
pub mod Shown
pub mod Equality
pub mod Same
pub mod Equal
