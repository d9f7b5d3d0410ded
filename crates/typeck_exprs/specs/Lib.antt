pub mod Jumps
pub mod Breaks
pub mod Pairs
pub mod Lists
pub mod Sizes
pub mod Forms
