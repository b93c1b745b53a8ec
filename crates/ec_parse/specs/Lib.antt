pub mod Cut
pub mod Formulas
pub mod Lines
pub mod Lists
pub mod Mark
pub mod Reads
pub mod Statements
pub mod Terms
