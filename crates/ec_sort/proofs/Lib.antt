pub mod GatherLemmas
pub mod LawLemmas
