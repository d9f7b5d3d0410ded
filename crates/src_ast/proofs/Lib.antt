pub mod Ends
pub mod Impls
pub mod LastNames
pub mod Named
pub mod FirstNames
pub mod Rows
pub mod Seconds
pub mod Walked
