pub mod Contents
pub mod Kinds
pub mod Least
pub mod Refusals
pub mod Takes
