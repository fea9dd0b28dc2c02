pub mod Ends
pub mod Faults
pub mod Into
pub mod Linked
pub mod Taken
pub mod Turns
