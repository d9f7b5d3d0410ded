pub mod Counting
mod Examples
pub mod InLines
pub mod Reading
