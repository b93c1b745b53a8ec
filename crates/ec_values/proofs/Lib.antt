pub mod SortLemmas
pub mod RowLemmas
pub mod TermLemmas
pub mod StackLemmas
pub mod AtomLemmas
