pub mod Marked
pub mod Refused
pub mod Checked
pub mod Reached
