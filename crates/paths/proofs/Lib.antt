pub mod Found
pub mod Waits
