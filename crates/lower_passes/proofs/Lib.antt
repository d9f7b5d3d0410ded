pub mod Nodeless
mod Stored
mod Covering
mod Gathering
mod Lengths
mod Marked
mod Parting
mod Parts
pub mod Reading
pub mod Standing
mod Twos
pub mod Behind
pub mod Keyed
pub mod Lists
pub mod Reached
