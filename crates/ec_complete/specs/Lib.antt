pub mod Completion
pub mod Room
pub mod View
