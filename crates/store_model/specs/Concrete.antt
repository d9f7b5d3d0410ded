pub mod Bodies
pub mod Drops
pub mod Effects
pub mod Location
pub mod State
