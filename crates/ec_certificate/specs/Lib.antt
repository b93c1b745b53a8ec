pub mod Accepted
pub mod Judged
pub mod Shown
pub mod Progress
