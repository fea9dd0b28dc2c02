pub mod Forward
pub mod Backward
pub mod Values
pub mod Worked
