pub mod Causes
pub mod Pieces
pub mod Plan
pub mod Memory
pub mod Held
pub mod Counts
pub mod Lines
