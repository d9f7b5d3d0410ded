pub mod Reads
pub mod Bounds
pub mod Answers
pub mod Counting
pub mod View
