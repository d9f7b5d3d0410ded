pub mod Numbers
pub mod Trip
