pub mod Ending
pub mod Exact
pub mod Leading
pub mod LeadingEnds
pub mod Making
