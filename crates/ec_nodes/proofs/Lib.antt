mod FoldedNodes
mod Sums
mod PathWeights
mod EffectAtoms
pub mod GroundNodes
