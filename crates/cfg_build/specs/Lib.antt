pub mod Claims
pub mod Lowered
pub mod Lines
pub mod Told
pub mod Words
