pub mod Pieces
pub mod Joined
pub mod Mapped
pub mod Encodings
pub mod FirstFits
pub mod Verdicts
