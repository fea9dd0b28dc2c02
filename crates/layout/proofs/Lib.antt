pub mod Taking
pub mod Elements
pub mod Codes
pub mod Goings
pub mod Limits
pub mod Unique
pub mod OneVerdict
pub mod Readings
