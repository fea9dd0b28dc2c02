pub mod Least
pub mod Rising
pub mod Shift
