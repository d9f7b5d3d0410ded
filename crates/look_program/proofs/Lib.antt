pub mod Owing
pub mod Tracing
