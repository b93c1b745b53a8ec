pub mod SupportLemmas
pub mod AgreeLemmas
pub mod TakeLemmas
pub mod FirstLemmas
pub mod ReleaseLemmas
pub mod EffectLemmas
