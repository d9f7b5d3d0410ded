pub mod Counts
pub mod Done
pub mod Ended
pub mod Faults
pub mod Laid
pub mod Planning
