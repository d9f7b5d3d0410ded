pub mod Decisions
pub mod Edges
pub mod Ends
pub mod Leads
