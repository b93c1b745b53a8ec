pub mod Folded
pub mod Scope
pub mod Grounded
pub mod Models
pub mod WellFormed
pub mod Walk
