pub mod ClaimLemmas
mod Examples
pub mod ItemLemmas
pub mod NumberLemmas
