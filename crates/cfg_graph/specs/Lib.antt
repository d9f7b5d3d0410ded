pub mod Edges
pub mod Moves
pub mod NamedPlaces
pub mod Places
pub mod Ready
pub mod Uses
pub mod WellFormed
