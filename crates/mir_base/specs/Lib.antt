pub mod IntKind
pub mod Lending
pub mod Lines
pub mod Once
pub mod Trace
pub mod formers
