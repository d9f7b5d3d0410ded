pub mod Laws
pub mod Rooms
pub mod Roomy
pub mod Trees
