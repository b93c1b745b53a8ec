pub mod Forbidding
pub mod LineBytes
pub mod Judging
pub mod JudgedLogs
pub mod Holding
pub mod Appending
pub mod UnderWay
pub mod Reordered
pub mod Logged
mod Codes
pub mod FewDerived
pub mod Counting
mod Examples
