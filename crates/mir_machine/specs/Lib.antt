pub mod Laws
pub mod Continuation
pub mod Runs
pub mod Tasks
pub mod Ways
pub mod Errors
pub mod Flows
