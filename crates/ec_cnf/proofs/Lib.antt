pub mod NamedTrees
pub mod AtomsRead
mod Extensions
mod Once
pub mod ListOf
