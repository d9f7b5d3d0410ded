pub mod Bits
pub mod Passes
pub mod Rows
pub mod Sharing
