pub mod Activations
pub mod Frames
pub mod Locations
pub mod Marks
pub mod PathEq
pub mod SameReach
pub mod Stands
pub mod Wholes
