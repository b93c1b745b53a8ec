pub mod Nesting
pub mod Ties
pub mod Fitting
pub mod Bounding
pub mod Fixed
pub mod Sentences
pub mod Tying
