-- Graphs and paths that were worked out by hand, closed by computation.
mod Damaged
pub mod Graphs
mod PathRows
mod Ranks
mod ReadyRows
mod Short
mod Statements
mod Targets
mod Terminators
mod UseRows
