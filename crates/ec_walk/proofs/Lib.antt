pub mod Meeting
pub mod ScopeLemmas
pub mod TermViews
pub mod MeasureLemmas
pub mod FaultLemmas
pub mod TreeLemmas
pub mod NestedLemmas
