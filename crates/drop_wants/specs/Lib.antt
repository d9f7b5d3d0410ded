pub mod Marks
pub mod Renumbered
