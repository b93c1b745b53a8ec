pub mod TrailLemmas
pub mod BackTo
pub mod Lookup
pub mod Values
