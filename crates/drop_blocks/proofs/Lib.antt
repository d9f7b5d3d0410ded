mod Begins
pub mod LadderLaws
pub mod Seen
mod Turns
