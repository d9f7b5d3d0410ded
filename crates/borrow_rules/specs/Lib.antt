pub mod Answers
pub mod Found
pub mod View
pub mod Forms
pub mod AccessView
