pub mod TruthLemmas
pub mod LeftLemmas
pub mod WalkLemmas
pub mod CheckLemmas
