-- What the checks of expressions give is well typed, as a whole.
pub mod Expressions
pub mod Loops
pub mod Names
