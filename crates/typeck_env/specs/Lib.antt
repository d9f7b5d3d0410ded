pub mod Scope
pub mod Coerced
pub mod Members
pub mod Walked
