pub mod Covers
pub mod Facts
pub mod Like
pub mod Plan
pub mod Planning
pub mod Typed
