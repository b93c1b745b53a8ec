pub mod Firsts
pub mod Tables
pub mod Numbered
pub mod Descent
pub mod Lookups
pub mod Few
pub mod Variables
