pub mod SignatureTest
pub mod SampleSignatures
pub mod WideSizes
mod Signatures
mod Trees
mod Axioms
