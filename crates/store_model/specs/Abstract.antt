pub mod Effects
pub mod Presence
