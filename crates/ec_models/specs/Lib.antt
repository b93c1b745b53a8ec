pub mod Early
pub mod Tried
