pub mod Bases
pub mod Blocks
pub mod Matches
