pub mod Reasons
pub mod Stops
pub mod Back
pub mod Full
pub mod Run
pub mod Searched
pub mod Ready
pub mod Heaped
