pub mod Marking
pub mod Falsifying
pub mod Following
pub mod Reaching
