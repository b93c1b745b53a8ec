pub mod Codes
pub mod Faults
pub mod Signatures
pub mod Sound
