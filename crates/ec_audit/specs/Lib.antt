pub mod Untrue
pub mod Fillable
pub mod Ground
pub mod Firsts
