pub mod Views
pub mod ParentLemmas
pub mod SizeLemmas
pub mod TableLemmas
pub mod DomainLemmas
pub mod CountLemmas
