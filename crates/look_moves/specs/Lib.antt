pub mod Actions
pub mod Origin
