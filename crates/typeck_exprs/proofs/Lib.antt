pub mod LoopTypes
pub mod Targets
pub mod Lists
pub mod Shapes
pub mod PlaceForms
pub mod Referring
pub mod Numbers
