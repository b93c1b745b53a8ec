pub mod ClauseListLemmas
pub mod TruthLemmas
pub mod Looking
pub mod StepLemmas
pub mod Sound
pub mod Distinct
