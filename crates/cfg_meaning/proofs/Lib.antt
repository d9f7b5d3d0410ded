mod Examples
pub mod FreeWalks
pub mod Runs
pub mod Ticks
pub mod WalkTied
pub mod Walks
pub mod WalksFollow
