pub mod FieldByField
pub mod Places
pub mod Treating
pub mod Weighing
