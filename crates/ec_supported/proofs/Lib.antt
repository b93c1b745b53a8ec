mod Ancestors
mod KeptPlaces
mod SubsortValues
mod GroundCounts
pub mod SupportedTuples
pub mod GroupTuples
