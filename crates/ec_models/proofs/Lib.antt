pub mod Rise
pub mod Branches
pub mod Finding
pub mod VisibleParts
pub mod Leaves
pub mod EarlyLaws
pub mod Steps
pub mod Passing
