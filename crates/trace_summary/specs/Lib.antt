pub mod Kinds
pub mod Summary
