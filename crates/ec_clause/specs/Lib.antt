pub mod Literal
pub mod Truth
pub mod ClauseList
pub mod Sees
pub mod Note
pub mod Step
pub mod Ending
