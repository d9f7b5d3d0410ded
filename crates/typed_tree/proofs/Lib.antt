pub mod FormNodes
pub mod NumberLemmas
pub mod SearchLemmas
pub mod ViewLemmas
pub mod Following
pub mod PlainForms
mod FoundNodes
