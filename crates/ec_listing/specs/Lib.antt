pub mod Slots
pub mod Apart
pub mod Reading
pub mod Endings
pub mod Within
pub mod Passing
pub mod Lists
