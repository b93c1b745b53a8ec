pub mod JoinTruth
pub mod JoinConstants
