pub mod Digits
pub mod Left
pub mod Walk
pub mod Checked
