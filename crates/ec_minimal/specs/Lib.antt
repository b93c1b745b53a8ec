pub mod Agrees
pub mod Effects
pub mod Verdicts
pub mod Judges
pub mod Firsts
