pub mod Naming
pub mod Listing
pub mod Tidy
pub mod Marks
pub mod Variables
pub mod Extension
