pub mod Building
pub mod Builds
