pub mod Later
pub mod Optional
