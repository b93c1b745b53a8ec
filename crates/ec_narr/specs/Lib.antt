pub mod Parts
pub mod Tells
pub mod Slots
pub mod Reading
pub mod Laws
