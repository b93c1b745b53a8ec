pub mod Refusals
pub mod Opening
pub mod Book
pub mod Sound
pub mod Gathered
pub mod Answers
pub mod Part
