pub mod Framed
pub mod MarkRules
pub mod Spans
pub mod Reaching
pub mod Scoped
