pub mod Checkable
pub mod Codes
pub mod Layers
pub mod One
