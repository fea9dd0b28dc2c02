pub mod OneVerdict
pub mod Ranked
pub mod Sizes
