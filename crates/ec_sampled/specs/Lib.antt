pub mod Tokens
pub mod Book
pub mod Theory
