pub mod Prop
pub mod Joining
pub mod Grounded
