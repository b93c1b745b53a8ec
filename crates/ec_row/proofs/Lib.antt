pub mod BitLemmas
pub mod OrderLaws
pub mod WordOrder
