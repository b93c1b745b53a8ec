pub mod Groups
pub mod Form
pub mod Parts
pub mod Split
pub mod Plan
pub mod Dealt
pub mod IsSplit
