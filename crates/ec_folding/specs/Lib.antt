pub mod Tree
pub mod Join
pub mod Constants
pub mod Definition
