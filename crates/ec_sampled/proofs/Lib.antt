mod Cutting
mod Each
mod Lexed
mod Short
mod ParsedNumbers
mod ParsedPieces
mod ParsedLines
mod Parsed
pub mod Says
mod Passing
mod Declared
mod Faults
pub mod Size
mod Values
mod Dealt
pub mod Accepted
pub mod Sample
