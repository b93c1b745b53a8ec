pub mod Digits
pub mod Ending
pub mod Line
pub mod Reading
pub mod Log
pub mod Kept
pub mod Reader
pub mod Collecting
