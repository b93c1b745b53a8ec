pub mod Samples
pub mod Text
