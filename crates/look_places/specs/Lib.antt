pub mod LinePlaces
pub mod Names
