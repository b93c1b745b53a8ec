pub mod Reading
pub mod Cuts
pub mod Prefixes
pub mod Printed
