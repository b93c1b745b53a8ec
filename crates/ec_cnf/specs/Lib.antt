pub mod List
pub mod Models
