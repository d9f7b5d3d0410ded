pub mod Actions
pub mod BadUses
pub mod Gone
pub mod Paths
pub mod Present
