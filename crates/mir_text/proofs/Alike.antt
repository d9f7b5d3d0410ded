pub mod Apart
pub mod Enough
pub mod Lines
pub mod One
pub mod Readable
pub mod Rows
pub mod Written
