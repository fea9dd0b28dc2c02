pub mod Classes
pub mod Tokens
pub mod Lexing
pub mod Words
pub mod Symbols
pub mod Following
