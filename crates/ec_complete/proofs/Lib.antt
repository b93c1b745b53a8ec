pub mod Anys
pub mod Raising
pub mod Ranging
pub mod Instances
pub mod Ordering
pub mod Closing
pub mod Defining
pub mod RowLemmas
pub mod BoundLemmas
pub mod RoomLemmas
pub mod Views
pub mod CompleteLemmas
mod Examples
