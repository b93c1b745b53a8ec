mod Rising
mod Stages
mod Rows
mod Lists
pub mod Finding
pub mod LogLines
pub mod FoundLaws
