pub mod Snippets
pub mod Tellings
