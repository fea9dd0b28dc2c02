pub mod Spans
pub mod Classes
pub mod Fronts
pub mod Nexts
pub mod Laws
pub mod Digits
pub mod Sayings
