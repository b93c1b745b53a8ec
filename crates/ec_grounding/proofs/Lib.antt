pub mod FoldedTruth
pub mod ScopeTruth
pub mod SameReading
pub mod AtomsListed
pub mod Groups
pub mod Readings
pub mod GroundModels
mod Examples
pub mod FoldedShifted
pub mod FoldedConstants
mod FoldedAtoms
pub mod KnownPredicates
mod ListedLemmas
pub mod GroundForm
pub mod WalkedPaths
pub mod TruthWhere
pub mod KnownTheory
pub mod ReadStructures
