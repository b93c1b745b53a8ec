pub mod Parts
pub mod Endings
pub mod Atoms
pub mod Words
pub mod Searching
pub mod Released
pub mod Finding
