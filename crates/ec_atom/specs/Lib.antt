pub mod Listing
pub mod Table
pub mod Numbering
pub mod Blocks
pub mod Symbols
pub mod Ground
