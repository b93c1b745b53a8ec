pub mod PlaceLemmas
pub mod TableLemmas
pub mod NameLemmas
pub mod StatementLemmas
pub mod DealLemmas
pub mod FormLemmas
pub mod SoundLemmas
pub mod ValidLemmas
mod Examples
