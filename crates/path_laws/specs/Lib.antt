pub mod Bits
pub mod Free
pub mod Marks
pub mod Paths
pub mod Ranks
pub mod Spread
pub mod Tables
