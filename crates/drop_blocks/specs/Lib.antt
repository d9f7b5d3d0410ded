pub mod View
pub mod Ladders
pub mod Standing
