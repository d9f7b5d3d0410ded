-- What checks add to a walk.
pub mod Adding
pub mod Expressions
pub mod Heads
pub mod Later
pub mod Lawful
pub mod Params
pub mod Patterns
pub mod Rows
pub mod Steps
