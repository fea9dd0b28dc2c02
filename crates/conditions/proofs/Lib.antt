pub mod Parts
pub mod Reading
pub mod Whole
pub mod Within
