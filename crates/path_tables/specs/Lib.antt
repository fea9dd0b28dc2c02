pub mod Pairs
pub mod Reaching
pub mod Sets
