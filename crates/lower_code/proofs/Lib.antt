pub mod Following
pub mod Nodes
mod Ordered
pub mod Wanting
