pub mod Ascii
pub mod Cut
pub mod Forms
pub mod Longest
pub mod One
pub mod Runs
