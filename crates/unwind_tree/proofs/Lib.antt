pub mod Changed
pub mod Finding
pub mod Following
pub mod Lists
pub mod Rooms
pub mod Wrap
