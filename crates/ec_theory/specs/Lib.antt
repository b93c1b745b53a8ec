pub mod View
pub mod Rows
pub mod Sizes
pub mod Theories
pub mod Values
pub mod Counts
