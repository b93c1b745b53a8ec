pub mod Cnf
pub mod Names
