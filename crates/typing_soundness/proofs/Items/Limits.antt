-- The types in the table of an accepted text are within their limits.
pub mod Collected
pub mod Expressions
pub mod Patterns
pub mod Program
pub mod Rows
pub mod Types
