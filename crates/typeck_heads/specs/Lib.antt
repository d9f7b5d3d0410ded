pub mod Answers
pub mod Sizes
pub mod Forms
pub mod Standing
pub mod Counts
