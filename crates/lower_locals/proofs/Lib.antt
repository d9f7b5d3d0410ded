pub mod Bodies
pub mod OwnFirst
pub mod FoundLocals
pub mod Placing
pub mod Positions
